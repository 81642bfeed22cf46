pub mod Search
pub mod Quick
pub mod Terms
