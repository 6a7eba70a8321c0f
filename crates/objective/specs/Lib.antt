pub mod Job
pub mod Tasks
