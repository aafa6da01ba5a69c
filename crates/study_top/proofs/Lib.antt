pub mod RootBoard
pub mod RootWeights
pub mod SolvedTold
pub mod Asked
pub mod OneText
