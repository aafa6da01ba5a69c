pub mod Places
pub mod Bools
pub mod Words
