pub mod Collecting
pub mod Listing
