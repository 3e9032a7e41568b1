pub mod Prices
pub mod Outcomes
