pub mod Fnv1a
