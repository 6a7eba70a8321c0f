pub mod Refusals
pub mod Sequences
