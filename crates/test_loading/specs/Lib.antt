pub mod FindFlows
pub mod ReleasedPercent
pub mod Theorems
