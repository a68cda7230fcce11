pub mod Rows
pub mod Adding
pub mod Held
pub mod Ended
pub mod Kept
