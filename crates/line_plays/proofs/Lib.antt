pub mod OneDefence
pub mod Shown
pub mod Placed
