pub mod Last
pub mod Raised
pub mod SetCounts
pub mod Sets
pub mod Suits
pub mod Words
