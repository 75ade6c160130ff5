pub mod Transfers
pub mod ContractRules
pub mod Theorems
pub mod Inner
