pub mod Strings
pub mod Games
pub mod Pieces
pub mod Grammar
pub mod Reading
