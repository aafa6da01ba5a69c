pub mod Forms
pub mod Refusals
pub mod Solved
pub mod Study
