pub mod LineSteps
pub mod ReadWeights
pub mod Fits
pub mod Follow
pub mod Sort
pub mod Keep
