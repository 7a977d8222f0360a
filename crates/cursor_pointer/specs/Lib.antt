pub mod Examples
pub mod Pointer
