pub mod Waits
pub mod Placing
pub mod Surveyed
