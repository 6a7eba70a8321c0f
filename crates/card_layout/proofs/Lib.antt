pub mod EachKind
pub mod Indices
pub mod Lengths
