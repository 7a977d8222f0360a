pub mod Completeness
pub mod Examples
pub mod Picture
