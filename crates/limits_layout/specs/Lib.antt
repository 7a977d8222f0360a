pub mod LimitsLayout
pub mod Examples
