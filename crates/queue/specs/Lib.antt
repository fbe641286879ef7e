pub mod Order
pub mod Bag
pub mod Runs
