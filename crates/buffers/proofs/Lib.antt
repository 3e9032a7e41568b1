pub mod Filling
pub mod Laid
