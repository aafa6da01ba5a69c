pub mod Seats
pub mod DrawJob
