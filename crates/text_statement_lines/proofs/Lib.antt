pub mod Figures
pub mod Settled
