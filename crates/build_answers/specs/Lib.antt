pub mod Answers
pub mod Refused
