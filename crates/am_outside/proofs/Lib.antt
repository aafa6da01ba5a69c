pub mod Places
pub mod Rises
pub mod Shelves
pub mod Stored
pub mod Written
