pub mod Heaps
pub mod Rows
