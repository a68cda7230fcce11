pub mod Ghost
pub mod ListLaws
pub mod PlacingLaws
pub mod VersionLaws
pub mod CommitLaws
pub mod SlotLaws
pub mod RowLaws
