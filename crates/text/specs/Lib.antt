pub mod Abnf
pub mod Examples
pub mod Hex
pub mod Range
pub mod Word
