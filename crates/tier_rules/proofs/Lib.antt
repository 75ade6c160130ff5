pub mod States
pub mod Runs
pub mod Cells
pub mod Holding
pub mod Going
pub mod Books
pub mod Theorems
