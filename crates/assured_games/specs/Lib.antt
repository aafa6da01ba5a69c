pub mod Assured
pub mod Laws
pub mod Made
pub mod Steps
