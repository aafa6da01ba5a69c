pub mod Sure
pub mod Stoppers
pub mod Headed
