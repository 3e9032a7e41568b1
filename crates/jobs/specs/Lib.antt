pub mod Pool
pub mod Service
pub mod Runs
pub mod Given
pub mod InTime
