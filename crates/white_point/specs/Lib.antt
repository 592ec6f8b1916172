pub mod White
pub mod GrayWhite
pub mod GrayWhiteLaws
