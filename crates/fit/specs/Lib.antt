pub mod Ends
pub mod Outcome
