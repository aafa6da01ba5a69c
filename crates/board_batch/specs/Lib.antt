pub mod Problems
pub mod Batches
pub mod Refusals
