pub mod Cards
pub mod SetWords
pub mod Seats
pub mod Raised
