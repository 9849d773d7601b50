pub mod Tables
pub mod Steps
pub mod Base
pub mod Examples
