pub mod Date
pub mod Weekday
pub mod MonthLater
pub mod Theorems
