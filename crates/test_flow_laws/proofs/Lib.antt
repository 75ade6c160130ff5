pub mod Additive
