pub mod FindMcc
pub mod Inner
