pub mod Loops
pub mod Largest
pub mod Finding
pub mod Keeping
