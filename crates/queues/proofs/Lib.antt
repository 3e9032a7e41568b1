pub mod Bounds
pub mod Ranges
pub mod Numbering
pub mod Finding
pub mod RoundTrip
pub mod Blocks
pub mod Fewer
