mod Magnitudes
pub mod Lengths
pub mod Lanes
