pub mod Examples
pub mod Grammar
pub mod Reading
pub mod Theorems
pub mod Writing
pub mod Value
