pub mod Description
pub mod Held
pub mod Written
pub mod Bounds
pub mod BoundsLaws
