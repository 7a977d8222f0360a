pub mod Examples
pub mod Fragment
pub mod Parsing
pub mod Start
pub mod UnusedFields
