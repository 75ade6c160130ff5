pub mod Dates
pub mod OnPeak
pub mod Inner
pub mod Theorems
