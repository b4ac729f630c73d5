pub mod Start
pub mod Answers
pub mod Streams
