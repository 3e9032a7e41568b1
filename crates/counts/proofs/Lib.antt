pub mod Bounds
pub mod Rule
