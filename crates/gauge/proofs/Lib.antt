pub mod Lengths
pub mod Gauges
