pub mod Rates
pub mod Agreement
pub mod Counts
pub mod Tellings
pub mod Readings
