pub mod Linear
pub mod Sums
pub mod Perms
pub mod Sizes
pub mod Division
pub mod Machine
