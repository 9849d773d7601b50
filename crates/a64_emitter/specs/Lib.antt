pub mod Writers
pub mod Zbb
pub mod Emitter
pub mod Parts
