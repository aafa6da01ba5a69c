pub mod Positions
pub mod Play
pub mod Nodes
