pub mod Plain
pub mod Scaling
pub mod Bounds
pub mod Corners
pub mod Sets
pub mod Numbers
pub mod Lowest
pub mod Theorems
