pub mod Sitting
pub mod OneCard
pub mod Lines
pub mod Choosing
pub mod UnderWay
pub mod WonLines
