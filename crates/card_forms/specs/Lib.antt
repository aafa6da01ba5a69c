pub mod Planned
pub mod Plain
pub mod Records
pub mod Equals
pub mod Objects
pub mod Forms
