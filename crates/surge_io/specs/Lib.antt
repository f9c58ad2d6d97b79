pub mod Bytes
pub mod Faults
pub mod Fields
pub mod Memory
pub mod Pages
pub mod Readings
pub mod Streams
pub mod Writings
