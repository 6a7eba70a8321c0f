pub mod Zeros
pub mod Places
pub mod Steps
pub mod Halves
pub mod Reductions
