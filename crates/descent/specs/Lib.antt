pub mod Fit
pub mod Claim
pub mod Stop
