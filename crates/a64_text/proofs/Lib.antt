pub mod Laying
pub mod Longest
pub mod Rows
pub mod Texts
