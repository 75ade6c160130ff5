pub mod Room
pub mod Runs
pub mod Relieved
pub mod Adding
pub mod Rows
pub mod Held
pub mod Theorems
