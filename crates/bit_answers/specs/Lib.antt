pub mod Faults
pub mod Ready
pub mod Answers
pub mod Delivery
pub mod Strategies
