pub mod TwoDigits
pub mod AsRead
pub mod CommonNameLaws
pub mod ClosestLaws
pub mod SameDecimalsLaws
pub mod SameDescriptionLaws
