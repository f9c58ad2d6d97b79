mod Advancing
mod Fans
mod Feeding
pub mod Handing
mod Laying
mod Loading
pub mod Marking
mod Nodes
mod Pairing
mod Spoking
mod Starting
mod Taking
