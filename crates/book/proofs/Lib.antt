pub mod LineLaws
pub mod PlayLaws
