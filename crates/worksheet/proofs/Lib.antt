mod Members
mod Marks
mod Estimates
pub mod Ways
mod Growing
pub mod Chains
mod Covering
mod Expanding
mod Taking
mod Tables
mod Invariants
mod Opening
mod Stepping
pub mod Offers
