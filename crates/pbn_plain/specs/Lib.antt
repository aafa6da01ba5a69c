pub mod PlainText
pub mod WellWritten
pub mod Numbered
pub mod Example
