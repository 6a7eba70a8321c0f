pub mod Exact
pub mod Density
pub mod Entry
