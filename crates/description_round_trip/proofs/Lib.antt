pub mod PrintedFloatLaws
pub mod PrintedPartLaws
pub mod InLanguageLaws
pub mod RoundTripLaws
pub mod RoundTrip
