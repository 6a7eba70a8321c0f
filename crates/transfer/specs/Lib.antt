pub mod Vectors
pub mod Process
pub mod Apply
