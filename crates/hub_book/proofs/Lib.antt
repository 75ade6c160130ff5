pub mod Checking
pub mod Growing
pub mod Sums
pub mod Theorems
