pub mod Inversion
pub mod Kept
pub mod Held
