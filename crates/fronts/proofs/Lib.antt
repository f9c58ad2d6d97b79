pub mod Keeping
pub mod Lining
mod Making
mod Pairing
pub mod Raising
pub mod Stepping
mod Taking
