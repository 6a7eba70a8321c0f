pub mod Entries
pub mod Laid
