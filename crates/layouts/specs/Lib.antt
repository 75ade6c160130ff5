pub mod Forms
pub mod Files
pub mod GridFile
pub mod BookFile
pub mod BookTable
pub mod PriceFile
pub mod Writing
pub mod Inner
