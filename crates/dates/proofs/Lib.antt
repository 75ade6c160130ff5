pub mod Checking
pub mod Ranges
pub mod Theorems
