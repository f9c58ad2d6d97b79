pub mod Calm
pub mod Raised
pub mod Quotients
pub mod MoreArrivals
pub mod States
