mod Listing
mod Carrying
mod Telling
pub mod Starting
