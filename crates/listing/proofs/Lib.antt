pub mod Members
pub mod Pieces
pub mod Accepted
pub mod Any
pub mod Any_pieces
