pub mod Rounds
pub mod Tables
