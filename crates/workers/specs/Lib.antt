pub mod Backwards
pub mod Runs
