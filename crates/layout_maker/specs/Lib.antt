pub mod Generator
pub mod MadeProblem
pub mod Divisions
pub mod Choosing
