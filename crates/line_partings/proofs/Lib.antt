pub mod Apart
pub mod Alike
pub mod Together
pub mod Placed
pub mod OnePlace
