pub mod Codes
pub mod Upper_case
pub mod Comparison
pub mod Hashing
pub mod Hints
pub mod Terms
