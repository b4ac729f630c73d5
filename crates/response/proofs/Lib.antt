pub mod Hex
pub mod Onto
