pub mod Firsts
pub mod Lanes
