pub mod SheetsLaws
pub mod Sheets
pub mod JobExample
