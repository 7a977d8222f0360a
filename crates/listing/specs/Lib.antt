pub mod Examples
pub mod State
pub mod Text
pub mod Verdict
