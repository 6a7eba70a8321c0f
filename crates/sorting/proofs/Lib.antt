pub mod Inserting
pub mod Ordered
pub mod Arranged
