pub mod PlanMeaning
pub mod PlanText
pub mod PlanRead
pub mod Bridge
pub mod RootTrees
