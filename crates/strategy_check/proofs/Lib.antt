pub mod Counts
pub mod Misfits
pub mod Followed
pub mod Won
pub mod Compared
pub mod ReadSizes
pub mod OneVerdict
