pub mod StoreLaws
pub mod ReliefLaws
