pub mod Md5
pub mod Md5Laws
