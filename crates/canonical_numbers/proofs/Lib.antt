pub mod Packing
pub mod Turning
pub mod CanonicalRows
