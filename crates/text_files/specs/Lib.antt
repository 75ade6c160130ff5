pub mod WithFiles
