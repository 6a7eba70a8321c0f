pub mod Places
pub mod Shape
