pub mod SessionLayout
