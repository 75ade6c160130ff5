pub mod WriteStatement
pub mod Inner
