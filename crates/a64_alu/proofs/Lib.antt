pub mod Comparing
pub mod Results
