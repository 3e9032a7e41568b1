pub mod Values
pub mod Narrow
pub mod Encoding
