pub mod Reaches
pub mod Passes
