pub mod Line
pub mod Room
pub mod Steps
pub mod Whole
