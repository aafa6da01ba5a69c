pub mod Matched
pub mod Played
