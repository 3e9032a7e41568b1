pub mod Short
pub mod Calls
