pub mod Members
pub mod Answering
pub mod Cut
