pub mod Sums
pub mod Pass
pub mod Steps
