pub mod Partings
pub mod Nearest
