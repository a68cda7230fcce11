pub mod Later
pub mod Ranked
