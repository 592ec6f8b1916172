pub mod JobOutput
pub mod Entries
pub mod PartsLaws
pub mod Most
pub mod MostLaws
pub mod LendsLaws
