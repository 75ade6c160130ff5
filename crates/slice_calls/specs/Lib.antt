pub mod Calls
pub mod Taking
pub mod Hours
pub mod Theorems
