pub mod Words
pub mod Form
pub mod Reader
pub mod Replay
pub mod Run
pub mod Print
