pub mod Pointer
pub mod UnusedFields
