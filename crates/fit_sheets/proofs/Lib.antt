pub mod Shown
pub mod Entries
pub mod Buyer
pub mod Refusals
