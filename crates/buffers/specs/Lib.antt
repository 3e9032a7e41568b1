pub mod Fills
pub mod Laid
