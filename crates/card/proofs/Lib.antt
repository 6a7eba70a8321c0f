pub mod Accepted
pub mod Lowest
pub mod Walks
