pub mod Script
pub mod Choice
pub mod Search
pub mod Prints
pub mod Lines
pub mod Kept
pub mod Made
pub mod Plain
