pub mod Field
pub mod Part
pub mod Equal
pub mod Cells
pub mod Block
