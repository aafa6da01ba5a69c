pub mod Growing
pub mod Listed
