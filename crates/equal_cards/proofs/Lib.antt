mod Zips
pub mod Twins
pub mod TwinNodes
mod Start
pub mod OneFront
mod Kept
mod Masks
mod Next
