pub mod Texts
pub mod Games
