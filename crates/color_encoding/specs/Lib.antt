pub mod Coordinates
pub mod Intent
pub mod IntentLaws
pub mod Range
pub mod RangeLaws
pub mod Codes
pub mod CodesLaws
