pub mod Grammar
pub mod Scan
pub mod ScanLaws
pub mod Places
pub mod PlacesLaws
