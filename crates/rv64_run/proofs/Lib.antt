pub mod Fetching
pub mod Running
pub mod Entries
pub mod Refusing
pub mod Examples
