pub mod Sheets
pub mod Buyer
