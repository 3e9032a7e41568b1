pub mod Products
pub mod Places
