pub mod CodedWriter
pub mod CodedWriterLaws
