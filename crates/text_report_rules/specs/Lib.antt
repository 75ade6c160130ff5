pub mod Report
pub mod WriteReport
pub mod Inner
