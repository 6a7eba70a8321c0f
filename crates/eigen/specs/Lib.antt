pub mod Jacobi
pub mod Steps
