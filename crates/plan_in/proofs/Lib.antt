pub mod Letters
pub mod Numbers
