pub mod GrowthLaws
pub mod Growth
pub mod Grown
