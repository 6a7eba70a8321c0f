pub mod Significand
