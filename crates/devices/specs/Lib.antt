pub mod Outcomes
pub mod Contents
pub mod Rows
pub mod Bounds
