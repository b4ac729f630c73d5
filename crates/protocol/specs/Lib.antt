pub mod Settings
pub mod Numbers
pub mod Runs
pub mod Rules
