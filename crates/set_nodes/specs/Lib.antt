pub mod SetNodes
pub mod Neighbours
