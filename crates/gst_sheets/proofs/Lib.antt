pub mod Shown
pub mod Refusals
