pub mod Bands
pub mod Cavities
pub mod Fronts
pub mod Noted
pub mod Pairs
pub mod PointProps
pub mod Rows
pub mod Stretches
