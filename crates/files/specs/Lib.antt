pub mod Codes
pub mod Folder
pub mod Line
pub mod Outcome
