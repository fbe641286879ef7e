pub mod Refusing
mod Lowering
mod Measures
mod Relaxing
mod Passing
pub mod Settling
pub mod Records
pub mod Estimating
mod Wholes
