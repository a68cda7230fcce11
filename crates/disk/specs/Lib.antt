pub mod Block
pub mod Named
pub mod Stored
