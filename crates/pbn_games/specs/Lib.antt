pub mod PlayRows
pub mod GameText
