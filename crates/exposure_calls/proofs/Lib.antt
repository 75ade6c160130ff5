pub mod Shortfall
pub mod Exposure
pub mod Theorems
