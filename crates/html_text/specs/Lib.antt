pub mod Escapes
pub mod EscapeLaws
pub mod Pages
