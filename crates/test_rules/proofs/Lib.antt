pub mod Checking
pub mod Flowing
pub mod Figures
pub mod Judging
pub mod Theorems
