pub mod Functions
pub mod Slots
pub mod PartsKept
pub mod SeatsKept
pub mod StepsAllowed
pub mod InARow
pub mod Counted
