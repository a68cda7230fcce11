pub mod ActiveLaws
pub mod WriteLaws
pub mod Write
pub mod Commit
pub mod BeginAbort
