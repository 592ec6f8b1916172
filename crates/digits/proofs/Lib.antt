pub mod Split
