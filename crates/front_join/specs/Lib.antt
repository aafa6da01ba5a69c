pub mod Joins
pub mod JoinerValue
