pub mod Written
pub mod Endings
pub mod SuitTexts
