pub mod Sector
pub mod Logged
pub mod Closing
pub mod Settling
