pub mod Reading
pub mod Values
pub mod Examples
pub mod Theorems
