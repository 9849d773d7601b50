pub mod Operands
pub mod Text
pub mod Parts
