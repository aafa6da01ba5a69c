pub mod Judged
pub mod Verdicts
pub mod Walks
pub mod Open
pub mod Values
pub mod LeftOut
