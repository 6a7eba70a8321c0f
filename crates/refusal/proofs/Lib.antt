pub mod Verdicts
pub mod Lower
