pub mod Reach
pub mod Slots
