pub mod Refusals
pub mod Cards
pub mod Fits
