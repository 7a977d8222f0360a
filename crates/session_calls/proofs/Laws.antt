pub mod Refusals
pub mod SessionCalls
