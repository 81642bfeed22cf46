pub mod Steps
pub mod Begin
pub mod Inside
pub mod Walked
