pub mod Below
pub mod Blocks
pub mod Bytes
pub mod Conflict
pub mod Empty
pub mod Examples
pub mod Order
