pub mod Examples
pub mod SessionCalls
