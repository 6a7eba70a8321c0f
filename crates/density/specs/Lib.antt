pub mod Projection
pub mod Steps
