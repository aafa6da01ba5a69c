pub mod GivenUp
pub mod GivingLaws
