pub mod Repeats
pub mod Tables
