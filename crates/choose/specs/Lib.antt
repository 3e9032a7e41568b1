pub mod Choice
pub mod Pass
