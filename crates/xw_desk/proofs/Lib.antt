pub mod Writing
pub mod Checks
