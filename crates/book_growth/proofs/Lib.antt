pub mod Appending
pub mod Keeping
