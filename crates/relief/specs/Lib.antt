pub mod Words
pub mod Free
pub mod Form
