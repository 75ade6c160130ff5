pub mod Perms
pub mod Figures
pub mod Reliefs
pub mod Theorems
