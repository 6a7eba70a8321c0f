pub mod Mixing
pub mod Outcome
