pub mod Exec
pub mod Parts
