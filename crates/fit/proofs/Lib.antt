pub mod Closing
pub mod Whole
