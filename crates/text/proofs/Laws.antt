pub mod Abnf
pub mod Hex
pub mod Range
