pub mod Rows
pub mod Squares
pub mod Netting
pub mod Losing
pub mod Theorems
