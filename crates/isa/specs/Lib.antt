pub mod Formats
pub mod Classes
pub mod Isa
pub mod Decode
pub mod Parts
pub mod Zbb
