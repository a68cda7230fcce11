pub mod Log
pub mod Places
pub mod Restart
pub mod Only
