pub mod Growing
pub mod Splitting
pub mod Finding
pub mod Listing
