pub mod Calls
pub mod Runs
pub mod InTime
pub mod NoWrap
