pub mod Shortfall
pub mod Exposure
