pub mod Placed
pub mod Looked
pub mod Behind
pub mod GivenUp
