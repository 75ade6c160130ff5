pub mod Sharing
pub mod Ordering
pub mod Putting
