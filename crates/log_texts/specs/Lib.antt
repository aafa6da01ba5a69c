pub mod LogText
pub mod Reading
pub mod ReadBack
pub mod Written
