pub mod Calls
pub mod Prices
