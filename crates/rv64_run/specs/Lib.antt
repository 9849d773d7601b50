pub mod Run
pub mod Parts
