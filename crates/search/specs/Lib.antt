pub mod Record
pub mod Calls
pub mod Parts
pub mod Numbers
