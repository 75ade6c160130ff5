pub mod Awards
pub mod OnTheWay
pub mod Theorems
