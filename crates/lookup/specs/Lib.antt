pub mod Search
pub mod Answers
pub mod Spots
pub mod Reach
pub mod Refused
