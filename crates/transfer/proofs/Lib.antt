pub mod Vectors
pub mod Processes
pub mod Applied
