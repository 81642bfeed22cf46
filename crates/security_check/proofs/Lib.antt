pub mod Counts
pub mod Compares
pub mod Turns
pub mod Batches
pub mod Rounds
pub mod Marking
pub mod Bits
pub mod Answers
