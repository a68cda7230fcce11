pub mod Blocks
pub mod Rows
pub mod Old
pub mod Calls
pub mod OldMedia
