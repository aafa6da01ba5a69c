pub mod Planned
pub mod EntryTexts
pub mod Written
