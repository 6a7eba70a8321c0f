pub mod Admission
pub mod Digits
pub mod Entries
pub mod Sums
