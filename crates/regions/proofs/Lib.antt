mod Blocking
mod Counting
mod Cutting
mod Depending
mod Ended
pub mod Joining
mod Listing
mod Needing
mod Owning
mod Parting
mod Pieces
mod Placing
mod Reading
mod Shaped
pub mod Sound
mod Standing
mod Strands
mod Touching
mod Whole
mod Windowed
mod Wiring
