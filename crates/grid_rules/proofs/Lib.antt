pub mod Factors
pub mod Passing
pub mod Sizing
pub mod Filling
pub mod RoundTrip
pub mod BothForms
pub mod Taken
pub mod Theorems
