pub mod Examples
pub mod Message
pub mod Runs
pub mod Step
pub mod Theorems
