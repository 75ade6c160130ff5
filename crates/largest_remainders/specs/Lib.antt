pub mod Ranks
pub mod Shares
pub mod Inner
