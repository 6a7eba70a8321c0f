pub mod Build
pub mod Fold
pub mod Part
