pub mod Speeds
pub mod Measures
