pub mod Growing
pub mod Passing
pub mod Accepted
pub mod Made
pub mod Theorems
