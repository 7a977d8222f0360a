pub mod Frame
pub mod Position
pub mod Rtp
pub mod UnusedFields
