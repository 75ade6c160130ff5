pub mod Excesses
