pub mod ReadGrid
pub mod Former
pub mod WriteGrid
pub mod Inner
