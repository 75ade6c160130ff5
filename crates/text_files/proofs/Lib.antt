pub mod WithFiles
pub mod Written
pub mod Cut
