pub mod Answered
pub mod HeaderTests
