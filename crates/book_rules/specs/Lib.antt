pub mod BookChecks
pub mod Former
pub mod Inner
pub mod ReadBook
pub mod WriteBook
