pub mod Dispatch
pub mod Size
