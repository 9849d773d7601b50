pub mod Model
pub mod Index
pub mod History
