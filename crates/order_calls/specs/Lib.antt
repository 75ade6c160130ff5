pub mod Values
pub mod Entries
pub mod ForC
pub mod Moving
