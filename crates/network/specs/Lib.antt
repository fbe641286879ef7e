pub mod Legs
pub mod Plans
pub mod Refusals
pub mod Tariffs
pub mod Walks
pub mod Estimates
pub mod Checks
