pub mod Ways
pub mod Moves
pub mod Among
pub mod Lists
pub mod Refusals
pub mod Depths
