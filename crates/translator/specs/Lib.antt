pub mod Translate
pub mod Numbers
pub mod Parts
