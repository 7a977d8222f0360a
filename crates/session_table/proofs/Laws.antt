pub mod Source
pub mod Table
