pub mod Language
pub mod Parse
pub mod StepLaws
