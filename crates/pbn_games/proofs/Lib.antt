pub mod LastRow
pub mod Hands
