pub mod Checking
pub mod Meaning
