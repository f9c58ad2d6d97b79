pub mod Listed
pub mod Backwards
pub mod Boards
pub mod Started
pub mod Used
pub mod Handed
