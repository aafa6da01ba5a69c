pub mod Turns
pub mod Phrases
pub mod TurnLaws
pub mod Numbers
pub mod Steps
pub mod Words
pub mod Reached
pub mod Strategies
