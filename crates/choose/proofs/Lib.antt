pub mod Costs
pub mod Choices
pub mod Passing
pub mod AnyRow
pub mod Walk
