pub mod Among
pub mod Counts
pub mod Known
pub mod Said
pub mod Tallies
