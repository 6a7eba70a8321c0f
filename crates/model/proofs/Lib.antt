pub mod Runs
pub mod Shown
pub mod Tests
pub mod Finite
pub mod Refusals
