pub mod CursorCalls
pub mod Examples
pub mod Records
pub mod UnusedFields
