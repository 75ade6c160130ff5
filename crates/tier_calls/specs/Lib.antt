pub mod Runs
pub mod Adding
pub mod Held
