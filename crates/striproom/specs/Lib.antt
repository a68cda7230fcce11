pub mod Arguments
pub mod Play
pub mod File
