pub mod Leads
pub mod Active
pub mod Differs
pub mod Calls
pub mod Again
pub mod Frees
