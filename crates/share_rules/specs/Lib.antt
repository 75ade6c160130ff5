pub mod ShareBalance
pub mod Inner
