pub mod AtMostLaws
pub mod WrittenLength
pub mod RefusalNumbers
