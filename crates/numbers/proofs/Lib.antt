pub mod Leaves
pub mod Finite
pub mod Products
pub mod Slices
pub mod Order
