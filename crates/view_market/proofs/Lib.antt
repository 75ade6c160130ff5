pub mod Clearing
pub mod Checking
