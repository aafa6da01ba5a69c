pub mod Kept
pub mod Lines
pub mod Verdicts
pub mod Layouts
