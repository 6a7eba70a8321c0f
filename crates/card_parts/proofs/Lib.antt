pub mod Sequences
pub mod Writing
