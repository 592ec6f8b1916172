pub mod Names
pub mod Held
