pub mod Grids
pub mod Books
pub mod Prices
pub mod ForC
pub mod Theorems
