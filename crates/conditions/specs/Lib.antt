pub mod Cursor
pub mod Passes
pub mod Lookup
