pub mod Built
pub mod Indices
pub mod Named
pub mod Parts
pub mod Settings
pub mod Verdict
