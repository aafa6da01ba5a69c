pub mod Alike
pub mod Enough
