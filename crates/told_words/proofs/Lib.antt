pub mod Sizes
pub mod PlayedSets
pub mod Telling
pub mod Numbered
pub mod Told
