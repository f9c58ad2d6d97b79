pub mod Alone
pub mod Fields
pub mod Quantities
pub mod Tables
pub mod Texts
pub mod Words
