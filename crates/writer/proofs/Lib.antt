pub mod Lengths
pub mod Coding
pub mod Tables
pub mod Outcomes
