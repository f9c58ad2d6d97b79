pub mod FirstPart
pub mod LinesCut
pub mod Ranges
pub mod Rules
