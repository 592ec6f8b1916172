pub mod Adapt
pub mod AdaptLaws
