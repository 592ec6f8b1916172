pub mod EncodingLaws
pub mod PartsLaws
