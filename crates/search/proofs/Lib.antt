mod Insides
mod Trying
pub mod Runs
mod Traces
pub mod Numbering
