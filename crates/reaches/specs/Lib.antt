pub mod Adding
pub mod Decided
