pub mod Values
pub mod Answers
pub mod ForC
pub mod Acceptance
pub mod Moving
pub mod Theorems
