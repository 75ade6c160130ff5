pub mod Places
pub mod Nodes
pub mod Sharing
pub mod Rows
pub mod Listing
pub mod Contracts
pub mod Theorems
