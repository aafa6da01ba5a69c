pub mod VectorLemmas
pub mod Orders
pub mod Members
pub mod Insertion
pub mod Reduction
mod WordBits
mod WordVectors
mod WordOrders
mod Together
mod Masks
pub mod WeightLemmas
mod NarrowWords
