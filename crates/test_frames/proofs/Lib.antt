pub mod Units
pub mod Holds
