pub mod Problem
pub mod Steps
pub mod Traces
pub mod Series
