pub mod Facts
pub mod Reasons
pub mod Tables
pub mod FactLaws
