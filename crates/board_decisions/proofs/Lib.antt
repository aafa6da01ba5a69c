pub mod TwoCards
pub mod Listed
