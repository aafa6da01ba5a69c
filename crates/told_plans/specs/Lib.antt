pub mod Follows
pub mod BothSteps
pub mod Told
pub mod ToldMeaning
pub mod Cuts
