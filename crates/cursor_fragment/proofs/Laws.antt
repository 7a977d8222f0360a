pub mod Fragment
pub mod Start
pub mod UnusedFields
