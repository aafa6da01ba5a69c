pub mod Grown
pub mod Held
pub mod Nested
pub mod OneLayout
pub mod Histories
pub mod MarkupTexts
