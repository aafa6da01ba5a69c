pub mod GreatestWeights
