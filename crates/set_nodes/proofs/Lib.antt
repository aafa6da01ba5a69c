pub mod Parts
pub mod Numbers
pub mod Won
pub mod Neighbours
pub mod Places
pub mod Legal
