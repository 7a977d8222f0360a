pub mod Examples
pub mod SessionLayout
