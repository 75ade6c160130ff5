pub mod Nets
pub mod Pairs
pub mod Books
pub mod Alike
pub mod Theorems
