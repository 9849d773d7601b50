pub mod Emptying
pub mod Tests
pub mod Walks
pub mod Laws
