pub mod Flowing
pub mod Cutting
pub mod Amounts
pub mod Theorems
