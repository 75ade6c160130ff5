pub mod Parts
pub mod Answering
pub mod Theorems
