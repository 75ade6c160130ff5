pub mod Slices
pub mod Totals
pub mod Cutting
pub mod Hours
pub mod Theorems
