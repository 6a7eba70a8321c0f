pub mod Fields
pub mod Limits
pub mod Kinds
pub mod Rules
pub mod Layout
