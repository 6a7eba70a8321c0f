pub mod Pivot
pub mod Kept
