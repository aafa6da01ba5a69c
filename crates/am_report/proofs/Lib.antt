pub mod EntryLines
pub mod Grown
pub mod HeadLines
pub mod PlainTexts
pub mod ReportReadBack
pub mod ReportSteps
pub mod Versions
pub mod Games
