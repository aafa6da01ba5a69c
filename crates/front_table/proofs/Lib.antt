pub mod Filling
pub mod Looking
pub mod Keeping
