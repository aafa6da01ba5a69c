pub mod Numbers
pub mod Causes
pub mod Tables
pub mod Asked
