pub mod NumbersOf
