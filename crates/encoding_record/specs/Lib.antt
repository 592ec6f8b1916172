pub mod EncodingRecord
pub mod EncodingRecordLaws
pub mod EncodingRecordTold
