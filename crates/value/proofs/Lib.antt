pub mod Decoding
pub mod OnePlace
