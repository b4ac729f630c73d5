pub mod Shown
pub mod Stream
