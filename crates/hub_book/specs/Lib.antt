pub mod AddHubContract
pub mod Theorems
pub mod Inner
