pub mod NetTransfers
pub mod Inner
