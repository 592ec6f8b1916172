pub mod XybNumbersLaws
