pub mod Dealing
pub mod Holders
mod Keeping
pub mod Loading
pub mod Moves
mod Owners
