mod Parts
pub mod Inside
pub mod CardLists
pub mod Turns
pub mod Soundness
pub mod BetweenTricks
pub mod States
pub mod Decisions
pub mod DoubleDummy
pub mod NodeLemmas
pub mod KeptLayouts
pub mod TrickLemmas
pub mod BestCard
pub mod PlayLaws
