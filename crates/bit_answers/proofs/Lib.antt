pub mod Sampled
pub mod Asked
pub mod Planned
