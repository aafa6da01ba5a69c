pub mod Files
pub mod GameCount
pub mod GamesRead
pub mod InOrder
pub mod Names
