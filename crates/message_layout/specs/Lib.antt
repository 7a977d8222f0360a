pub mod MessageLayout
pub mod Examples
