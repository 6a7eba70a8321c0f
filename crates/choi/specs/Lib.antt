pub mod Choi
pub mod Sparse
