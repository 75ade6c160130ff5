pub mod MarkTier
pub mod ReturnToTier
pub mod Inner
