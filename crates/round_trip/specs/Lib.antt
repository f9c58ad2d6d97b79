pub mod Lines
pub mod Renumbered
pub mod Writable
pub mod Plain
