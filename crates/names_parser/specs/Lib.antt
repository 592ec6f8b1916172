pub mod ParseNames
