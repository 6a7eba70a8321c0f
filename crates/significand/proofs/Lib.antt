pub mod Exact
pub mod Pattern
