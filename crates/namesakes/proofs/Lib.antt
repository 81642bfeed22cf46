pub mod Readings
pub mod Positions
pub mod Laws
