pub mod Groups
pub mod Told
