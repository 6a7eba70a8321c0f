pub mod Noughts
pub mod Places
pub mod Products
pub mod Scatter
pub mod Steps
pub mod Sums
pub mod Terms
pub mod Values
