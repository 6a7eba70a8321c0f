pub mod Root
pub mod Nearest
