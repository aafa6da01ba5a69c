pub mod Places
pub mod GoodLines
pub mod Placed
