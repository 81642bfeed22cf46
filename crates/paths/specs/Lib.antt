pub mod Paths
pub mod Descent
pub mod Answers
pub mod Children
pub mod Reach
pub mod Refused
