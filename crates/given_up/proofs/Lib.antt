pub mod FirstPlace
pub mod OnTheWay
pub mod Given
mod Card
