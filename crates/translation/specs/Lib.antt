pub mod Demand3
pub mod HelperBlock
pub mod RustBlock
pub mod Size
