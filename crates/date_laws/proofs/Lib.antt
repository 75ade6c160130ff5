pub mod AllMonths
pub mod ByDays
pub mod Theorems
