pub mod JoinLaws
pub mod ChecksLaws
pub mod SegmentsLaws
pub mod RoundTrip
pub mod AnswerNumbers
