pub mod FloatText
pub mod ParseFloat
pub mod FloatPlaces
pub mod FloatPlacesLaws
pub mod FloatLaws
pub mod NearestLaws
