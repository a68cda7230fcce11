pub mod Whole
pub mod Listing
