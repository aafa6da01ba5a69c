pub mod AboveSearches
pub mod Above
pub mod PlanSearches
pub mod Targets
pub mod SpentPlans
pub mod Choices
pub mod Written
