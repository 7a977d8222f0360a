pub mod Answer
pub mod Header
pub mod Reading
pub mod Values
pub mod Walk
pub mod WellFormed
