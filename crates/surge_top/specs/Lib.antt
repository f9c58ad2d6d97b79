pub mod Answer
pub mod Outcome
pub mod Printing
pub mod Ready
pub mod Status
