pub mod TableChecks
pub mod Inner
pub mod Hours
pub mod Grids
