pub mod Found
pub mod InsideLaws
pub mod WalkingLaws
