pub mod Places
pub mod OurCards
pub mod Opened
pub mod Replies
pub mod Roots
pub mod Valued
mod LeftOut
mod Marked
