pub mod Block
pub mod Fence
pub mod Fetched
pub mod Parts
