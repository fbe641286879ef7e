pub mod Ranges
pub mod Delays
pub mod Failing
pub mod Checking
pub mod Walking
