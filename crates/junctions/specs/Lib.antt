pub mod Junctions
pub mod Levels
pub mod Means
pub mod Sums
