pub mod Answering
pub mod Bound
pub mod Examples
pub mod Lines
