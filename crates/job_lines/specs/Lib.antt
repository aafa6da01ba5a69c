pub mod LinesJob
