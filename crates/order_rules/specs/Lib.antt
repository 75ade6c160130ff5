pub mod Reordering
pub mod Relief
