pub mod Pivots
