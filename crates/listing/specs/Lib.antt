pub mod Refused
pub mod Listing
pub mod Parts
