pub mod Data
pub mod GatheringLaws
pub mod LongLaws
