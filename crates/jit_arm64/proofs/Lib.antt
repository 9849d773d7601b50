pub mod Emitting
pub mod Ending
pub mod Fetching
pub mod Flows
pub mod Refusals
pub mod Refused
pub mod Fences
pub mod Walking
