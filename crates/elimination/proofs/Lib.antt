pub mod Lent
pub mod Entries
pub mod Cleared
pub mod Kept
