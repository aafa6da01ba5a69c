pub mod Defences
pub mod PlayOuts
