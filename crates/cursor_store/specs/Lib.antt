pub mod Assembling
pub mod Calls
pub mod DemandThree
pub mod Examples
pub mod Judging
pub mod Receiver
pub mod Storing
