pub mod Choices
pub mod Equals
pub mod Needs
