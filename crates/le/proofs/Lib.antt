pub mod Laws
pub mod Arrays
pub mod Splices
pub mod Lists
