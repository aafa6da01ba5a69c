pub mod Signs
pub mod Escaped
pub mod Pages
