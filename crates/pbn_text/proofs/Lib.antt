pub mod StringLemmas
pub mod Ahead
pub mod Collected
mod Ends
