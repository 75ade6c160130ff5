pub mod Factors
pub mod Cells
pub mod Passing
