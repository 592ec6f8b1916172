pub mod Headers
pub mod Plans
pub mod Tables
