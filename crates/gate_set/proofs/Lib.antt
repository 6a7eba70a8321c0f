pub mod Sequences
pub mod Columns
pub mod Turned
