pub mod Defended
