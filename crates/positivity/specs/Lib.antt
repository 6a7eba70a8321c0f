pub mod Positivity
