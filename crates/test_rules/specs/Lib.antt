pub mod TestBook
pub mod Inner
pub mod Carried
pub mod Theorems
