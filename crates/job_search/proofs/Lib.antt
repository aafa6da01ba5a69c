pub mod Answered
pub mod Firsts
pub mod Spent
pub mod Counts
