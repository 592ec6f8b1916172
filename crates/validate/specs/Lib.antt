pub mod Validate
