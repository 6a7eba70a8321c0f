pub mod Loading
pub mod Models
pub mod Steps
pub mod Tables
