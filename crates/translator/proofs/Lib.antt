pub mod Translating
pub mod Rows
