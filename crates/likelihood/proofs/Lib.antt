pub mod Counts
pub mod Loops
pub mod Terms
pub mod Records
pub mod Alike
pub mod Unrefused
