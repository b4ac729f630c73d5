pub mod Judging
pub mod Filling
pub mod Storing
