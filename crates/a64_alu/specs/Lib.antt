pub mod Alu
pub mod Nzcv
