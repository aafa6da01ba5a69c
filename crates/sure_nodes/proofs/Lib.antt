pub mod Kept
pub mod Cashed
pub mod PlayedOut
pub mod TopCards
pub mod SureBridge
