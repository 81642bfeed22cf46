pub mod Due
pub mod Answers
pub mod Terms
pub mod Coming
pub mod Runs
pub mod Refused
