pub mod Limits
pub mod Logs
pub mod Steps
pub mod LogVerdicts
pub mod LogsFor
