pub mod Digit
pub mod Probes
pub mod Settings
