pub mod Orders
pub mod Bags
mod Fillings
