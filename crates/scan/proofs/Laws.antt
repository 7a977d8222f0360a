pub mod Below
pub mod Bytes
pub mod Conflict
pub mod Empty
pub mod Order
