pub mod Puts
pub mod Laws
pub mod Whole
