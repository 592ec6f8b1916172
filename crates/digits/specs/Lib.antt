pub mod Digits
pub mod DigitsLaws
