pub mod Tallies
pub mod Serves
pub mod Fulfils
pub mod Desks
