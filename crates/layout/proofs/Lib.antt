pub mod Finish
pub mod KindParts
