pub mod RemapBook
pub mod Inner
pub mod Theorems
