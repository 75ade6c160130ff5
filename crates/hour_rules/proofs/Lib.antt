pub mod Passing
pub mod Amounts
pub mod HourSums
pub mod Answering
pub mod Pricing
pub mod Theorems
