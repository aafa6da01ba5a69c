pub mod Rules
pub mod Stops
