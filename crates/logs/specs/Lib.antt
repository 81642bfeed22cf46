pub mod Logs
pub mod Accepted
pub mod Refused
pub mod Small
