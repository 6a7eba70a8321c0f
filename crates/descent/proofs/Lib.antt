pub mod Laws
pub mod Models
pub mod Searches
pub mod Steps
pub mod Points
pub mod Counts
pub mod Prefix
pub mod Refusals
