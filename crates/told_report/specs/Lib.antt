pub mod ToldReport
