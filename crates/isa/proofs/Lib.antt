pub mod Decoding
pub mod ZbbRows
