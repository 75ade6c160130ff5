pub mod Cuts
pub mod Theorems
pub mod FindCuts
pub mod Inner
