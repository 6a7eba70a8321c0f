pub mod Units
pub mod Near
