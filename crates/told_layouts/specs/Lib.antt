pub mod Places
pub mod Looking
pub mod Behind
pub mod Losing
