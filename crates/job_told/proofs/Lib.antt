pub mod GoodPlans
