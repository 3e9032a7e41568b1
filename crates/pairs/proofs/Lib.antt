pub mod Demand3
pub mod Example
pub mod Empty
