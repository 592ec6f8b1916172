pub mod Described
pub mod HeldValues
