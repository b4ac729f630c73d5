pub mod Delay
pub mod Cut
pub mod Steps
pub mod Route
pub mod Lines
pub mod Access
