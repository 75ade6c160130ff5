pub mod Alike
pub mod Canonical
pub mod Migration
pub mod Market
pub mod SquareCells
pub mod Square
pub mod Theorems
