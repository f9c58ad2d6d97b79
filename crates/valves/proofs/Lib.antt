pub mod Quotients
pub mod Shut
