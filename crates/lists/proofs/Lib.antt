pub mod Lists
pub mod Fill
pub mod Blocks
pub mod Search
pub mod Sets
pub mod Fronts
