pub mod Sizes
pub mod Picked
pub mod Scales
