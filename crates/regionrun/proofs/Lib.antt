mod AtNodes
mod ByKind
mod Cutting
mod Flags
mod Halving
mod Handing
mod Keeping
mod Made
mod OnPipes
mod Parts
mod Sizing
mod Unprobed
mod Wording
pub mod Begun
pub mod Beside
pub mod Gathered
pub mod Merging
pub mod Nodes
pub mod Owning
pub mod Reached
pub mod Seams
pub mod Spanned
pub mod Spans
pub mod Spots
pub mod Starts
pub mod Tents
pub mod Turning
