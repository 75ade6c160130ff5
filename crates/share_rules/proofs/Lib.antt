pub mod Signs
pub mod Passing
pub mod Sharing
pub mod Fairness
pub mod Theorems
pub mod Totals
