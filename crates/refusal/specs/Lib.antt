pub mod Values
pub mod Verdicts
