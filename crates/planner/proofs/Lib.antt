pub mod Outcomes
pub mod Right
