pub mod Formats
pub mod Laws
pub mod Small
pub mod Later
