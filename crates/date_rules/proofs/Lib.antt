pub mod Months
pub mod Rule
pub mod Theorems
