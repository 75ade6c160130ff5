pub mod Totalling
pub mod Adding
pub mod Judged
