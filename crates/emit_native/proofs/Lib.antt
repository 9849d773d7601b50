pub mod Chains
pub mod Size
