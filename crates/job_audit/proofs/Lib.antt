pub mod Widths
pub mod Audited
