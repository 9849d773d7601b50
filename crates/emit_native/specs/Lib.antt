pub mod Hart
pub mod Calls
pub mod Sequences
pub mod Parts
