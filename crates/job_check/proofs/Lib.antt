pub mod Judged
pub mod ReadEntries
pub mod PrintedPlans
pub mod SolvedGood
