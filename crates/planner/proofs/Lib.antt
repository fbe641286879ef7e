mod Fulfilling
mod Ending
pub mod Routes
