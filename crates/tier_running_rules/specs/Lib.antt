pub mod OpenRunning
pub mod AddAward
pub mod Inner
