pub mod Smallest
pub mod Filling
pub mod Outcomes
