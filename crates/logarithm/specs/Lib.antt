pub mod Series
pub mod Steps
pub mod Error
