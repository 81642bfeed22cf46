pub mod Namesakes
pub mod Terms
