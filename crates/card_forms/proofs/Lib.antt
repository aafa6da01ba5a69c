pub mod Ascii
mod Chain
pub mod Whole
