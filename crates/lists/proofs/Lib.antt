pub mod Chains
pub mod Choices
pub mod Filling
pub mod Folding
pub mod Joined
pub mod Parts
pub mod Rows
