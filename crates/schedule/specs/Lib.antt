pub mod Nets
pub mod States
pub mod Order
pub mod Rules
pub mod Counted
pub mod Countings
pub mod Plans
pub mod LayoutNets
