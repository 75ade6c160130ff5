pub mod Rest
pub mod Shape
