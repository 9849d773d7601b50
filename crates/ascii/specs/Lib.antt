pub mod Ascii
pub mod Parts
