pub mod Pieces
pub mod Upgrading
