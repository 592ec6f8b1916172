pub mod XybParts
