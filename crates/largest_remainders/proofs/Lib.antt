pub mod Counting
pub mod Ranking
pub mod Order
pub mod Sharing
pub mod Halving
pub mod Callers
pub mod Theorems
