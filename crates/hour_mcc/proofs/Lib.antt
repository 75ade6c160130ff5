pub mod Passing
pub mod Products
