pub mod Drawn
pub mod Passes
