pub mod Assembling
pub mod Calls
pub mod DemandThree
pub mod Examples
pub mod Judging
pub mod Storing
pub mod UnusedFields
