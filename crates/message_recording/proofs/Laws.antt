pub mod Line
pub mod LineNumber
pub mod Listing
