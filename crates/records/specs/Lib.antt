pub mod Offsets
pub mod Keys
pub mod Facts
pub mod Lists
pub mod Listed
pub mod Terms
