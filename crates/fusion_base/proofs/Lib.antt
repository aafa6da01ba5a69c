pub mod Sampled
pub mod Entries
