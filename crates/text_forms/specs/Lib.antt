pub mod Records
pub mod Objects
