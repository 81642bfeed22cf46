pub mod Members
pub mod Pieces
pub mod Refused
