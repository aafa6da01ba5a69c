pub mod Reviews
pub mod Evenings
