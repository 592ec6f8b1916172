pub mod EntryOutput
pub mod Steps
pub mod EntryOutputLaws
