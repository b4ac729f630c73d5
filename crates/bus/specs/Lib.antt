pub mod Answers
pub mod Delay
pub mod Numbers
pub mod Map
pub mod Target
pub mod Payload
pub mod Serve
pub mod Laws
