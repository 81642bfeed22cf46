pub mod Cases
pub mod Refusals
pub mod Hives
pub mod Again
