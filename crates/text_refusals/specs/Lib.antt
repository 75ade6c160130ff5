pub mod Sentences
pub mod RefusalText
pub mod Theorems
pub mod Inner
