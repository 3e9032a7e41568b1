pub mod Rows
pub mod Room
pub mod Answers
pub mod LastTwice
pub mod Tables
pub mod Blocks
