pub mod Words
pub mod Emission
pub mod Parts
