pub mod Word
pub mod Counts
pub mod Bytes
