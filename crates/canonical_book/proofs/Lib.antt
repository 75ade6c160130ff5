pub mod Unpacking
pub mod Accepted
