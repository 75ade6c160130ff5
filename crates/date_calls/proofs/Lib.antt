pub mod Hours
pub mod Theorems
