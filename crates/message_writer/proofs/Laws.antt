pub mod Writing
pub mod WithField
pub mod ReadsBack
pub mod WritesBack
pub mod Written
