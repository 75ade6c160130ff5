pub mod Sums
pub mod Division
