pub mod BitsMade
pub mod Completes
pub mod InFront
pub mod MadeAccepted
pub mod OneOrder
pub mod Reporting
pub mod Steps
