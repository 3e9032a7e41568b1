pub mod Fits
pub mod FirstPass
pub mod SecondPass
pub mod Backward
