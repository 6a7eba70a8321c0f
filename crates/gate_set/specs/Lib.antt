pub mod GateSet
pub mod Models
