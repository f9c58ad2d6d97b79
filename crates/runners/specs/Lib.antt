pub mod Advances
pub mod Blocks
pub mod Ends
pub mod Runners
pub mod Tags
