pub mod Walked
pub mod Counted
pub mod Drawing
