pub mod SettleHour
pub mod Inner
pub mod Theorems
