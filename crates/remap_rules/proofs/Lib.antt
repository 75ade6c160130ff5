pub mod Moving
pub mod Checking
pub mod Accepted
pub mod Theorems
