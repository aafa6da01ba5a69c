pub mod Vectors
pub mod Fronts
pub mod Words
pub mod VectorLaws
pub mod Laws
pub mod Weights
pub mod WeightLaws
