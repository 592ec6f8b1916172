pub mod Writer
pub mod WriterLaws
