pub mod Rounding
pub mod Reciprocals
pub mod Roots
pub mod Tables
pub mod Decimal
pub mod Written
pub mod Spelled
