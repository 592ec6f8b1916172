pub mod XybConstants
pub mod XybNumbers
pub mod CubeRoot
