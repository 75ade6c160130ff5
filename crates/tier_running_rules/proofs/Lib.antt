pub mod Checking
pub mod Flowing
pub mod Overs
pub mod Promises
