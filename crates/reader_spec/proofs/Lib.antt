pub mod RefusalListAnswers
pub mod ReadAnswers
pub mod OwnersLaws
pub mod Accepts
pub mod AcceptsLaws
pub mod FinderLaws
pub mod Finds
