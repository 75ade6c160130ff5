pub mod Reliefs
