pub mod Cut
pub mod Line
pub mod Listing
pub mod Theorems
pub mod Examples
