pub mod Lines
pub mod Blanks
pub mod Numerals
pub mod Steps
