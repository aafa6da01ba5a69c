pub mod ToldJob
