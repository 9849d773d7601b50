pub mod Alu
pub mod Zbb
pub mod Decode
pub mod Execute
pub mod Parts
