pub mod Figures
pub mod Counting
pub mod Cells
pub mod Chosen
