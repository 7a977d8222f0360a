pub mod Writing
pub mod Theorems
pub mod Examples
