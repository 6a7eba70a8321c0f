pub mod Sort
pub mod Sorted
