pub mod Cavity
pub mod Characteristics
pub mod Equal
pub mod Interior
pub mod Runs
