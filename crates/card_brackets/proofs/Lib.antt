pub mod Leasts
pub mod Sampled
pub mod Leading
pub mod Tables
pub mod Bounded
pub mod HeavyVectors
pub mod OneTable
pub mod Fitting
