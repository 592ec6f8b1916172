pub mod Primaries
pub mod PrimariesLaws
pub mod RefusalLaws
