pub mod Fitting
pub mod Walks
