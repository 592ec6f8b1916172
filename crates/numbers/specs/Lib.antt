pub mod Fixed
pub mod FixedLaws
pub mod Rounded
pub mod RoundedLaws
pub mod Exact
