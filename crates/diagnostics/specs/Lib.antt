pub mod Diagnostics
pub mod Lent
