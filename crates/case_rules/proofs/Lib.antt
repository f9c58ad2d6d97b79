pub mod Earlier
pub mod LinesRead
pub mod Ranges
pub mod Rules
pub mod SinglesKept
pub mod SingleWords
pub mod Tallied
