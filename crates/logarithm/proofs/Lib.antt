mod Terms
mod Table
mod Test
mod Crosscheck
mod Constants
mod Cases
mod Fractions
mod Poly
mod Error
pub mod Theorem
pub mod Lent
pub mod Logarithms
