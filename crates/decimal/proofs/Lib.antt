pub mod Point
pub mod Units
pub mod Doubling
pub mod Value
