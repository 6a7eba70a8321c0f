pub mod Sums
pub mod Transposes
