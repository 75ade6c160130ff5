pub mod Weighing
pub mod Passing
