pub mod LimitsLayout
