pub mod RunLaws
pub mod Straight
