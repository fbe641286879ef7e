mod Rows
mod Ending
mod Reaching
mod Cases
