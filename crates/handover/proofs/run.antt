pub mod Looks
pub mod Typed
pub mod Newcomers
pub mod Stages
pub mod Handing
pub mod Promised
