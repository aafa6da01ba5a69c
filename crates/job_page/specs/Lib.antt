pub mod PageJob
