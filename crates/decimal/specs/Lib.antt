pub mod Seven
pub mod SevenLaws
pub mod AsciiLaws
pub mod Parts
pub mod PartsLaws
