pub mod Lists
pub mod Turns
pub mod Sound
pub mod Found
pub mod LayoutNets
pub mod Kept
