pub mod Halves
pub mod Rounded
pub mod Nearest
pub mod Cases
mod Roots
