pub mod ByKind
pub mod Standing
pub mod Within
pub mod Sizes
