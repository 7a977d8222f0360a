pub mod Argument
pub mod Examples
pub mod Hex
