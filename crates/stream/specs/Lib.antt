pub mod Stream
pub mod Balanced
pub mod Terms
