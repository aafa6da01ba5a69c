pub mod MoreLines
pub mod MoreBesides
pub mod Held
pub mod Believed
pub mod Zipped
pub mod Lost
