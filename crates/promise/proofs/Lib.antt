pub mod Telling
pub mod Chaining
pub mod Running
pub mod Accepting
pub mod Ways
pub mod Underway
pub mod Promised
mod Conducting
