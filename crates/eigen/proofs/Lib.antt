pub mod Alone
pub mod Running
