pub mod Scores
pub mod Slopes
