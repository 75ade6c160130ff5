pub mod Meaning
pub mod Units
pub mod Entry
