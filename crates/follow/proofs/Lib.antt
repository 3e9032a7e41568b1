pub mod Bytes
pub mod AnyRow
