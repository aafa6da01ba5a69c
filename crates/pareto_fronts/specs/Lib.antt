pub mod FrontValue
pub mod Places
