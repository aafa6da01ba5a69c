pub mod Minimax
pub mod Swap
pub mod Mirror
pub mod EqualCards
pub mod InPlay
pub mod Thresholds
pub mod LayoutResults
