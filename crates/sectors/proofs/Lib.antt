pub mod Stored
pub mod Words
pub mod Closed
pub mod Pages
pub mod Logged
pub mod Settles
