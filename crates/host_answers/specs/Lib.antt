pub mod Answers
pub mod Fresh
