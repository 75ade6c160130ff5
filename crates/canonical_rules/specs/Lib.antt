pub mod Canonical
pub mod CanonicalBook
pub mod Theorems
pub mod Inner
