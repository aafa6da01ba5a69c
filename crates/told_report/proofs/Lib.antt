pub mod ToldStrategies
