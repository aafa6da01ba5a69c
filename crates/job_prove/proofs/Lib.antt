pub mod Proven
