pub mod Buffer
pub mod Lines
pub mod Text
