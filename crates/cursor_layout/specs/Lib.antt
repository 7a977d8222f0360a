pub mod Examples
pub mod PictureLayout
pub mod PointerLayout
