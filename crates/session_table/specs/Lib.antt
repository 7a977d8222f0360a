pub mod Event
pub mod Record
pub mod Source
pub mod Table
