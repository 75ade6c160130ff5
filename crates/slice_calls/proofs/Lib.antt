pub mod Judging
pub mod Steps
pub mod Taking
pub mod Testing
pub mod Hours
pub mod Theorems
