pub mod Answers
pub mod Active
pub mod Ways
pub mod Aborting
pub mod Playing
pub mod Fed
