pub mod Hand
pub mod Calls
pub mod EveryInput
pub mod Promise
