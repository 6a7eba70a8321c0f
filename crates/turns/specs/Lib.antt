pub mod Rotation
pub mod Steps
