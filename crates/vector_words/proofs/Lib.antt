pub mod Horner
pub mod Widths
