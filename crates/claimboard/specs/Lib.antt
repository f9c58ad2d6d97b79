pub mod Answers
pub mod Board
pub mod Items
pub mod Laws
pub mod Seats
pub mod Steps
pub mod Views
