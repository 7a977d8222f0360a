pub mod Rules
pub mod Record
pub mod Accessors
pub mod Examples
