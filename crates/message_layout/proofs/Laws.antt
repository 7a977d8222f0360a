pub mod MessageLayout
