pub mod ReadsTexts
