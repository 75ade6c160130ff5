pub mod Tiers
pub mod Checks
pub mod Cells
pub mod Runs
pub mod Theorems
