pub mod Parts
pub mod Model
pub mod Writing
