pub mod Blocks
pub mod Opened
pub mod Dealing
