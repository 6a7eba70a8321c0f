pub mod Shown
pub mod Checked
