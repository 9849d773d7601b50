pub mod Le
pub mod Parts
