pub mod Zips
pub mod Lines
pub mod Between
pub mod Steps
pub mod LeftOut
pub mod Made
