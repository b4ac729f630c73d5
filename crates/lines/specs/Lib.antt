pub mod Buffers
pub mod Laws
pub mod Lines
