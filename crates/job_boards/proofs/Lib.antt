pub mod Zips
pub mod Roots
pub mod Batched
pub mod Told
