pub mod Records
pub mod Objects
pub mod Forms
