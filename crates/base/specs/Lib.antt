pub mod Block
pub mod Refused
