pub mod Bits
pub mod TakenBack
