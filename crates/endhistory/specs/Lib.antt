pub mod Blocks
pub mod Steps
pub mod Rule
pub mod Tells
pub mod Seats
pub mod Answers
pub mod Laws
