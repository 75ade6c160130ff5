pub mod Views
pub mod MarketView
pub mod HolderView
pub mod Theorems
pub mod ForC
