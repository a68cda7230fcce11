pub mod ReaderLaws
pub mod WideLaws
pub mod HexLaws
pub mod LastWord
pub mod Meaning
pub mod RunLaws
pub mod TakeLaws
pub mod PrintLaws
