pub mod Pairs
pub mod Matrices
pub mod Laying
