pub mod Trips
pub mod ForC
