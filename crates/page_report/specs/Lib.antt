pub mod BesideLines
pub mod Named
pub mod Played
pub mod Refuted
pub mod ReportPages
