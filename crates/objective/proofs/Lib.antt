pub mod Maps
pub mod Puts
pub mod Distances
