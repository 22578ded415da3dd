pub mod Counts
pub mod Place
pub mod Case
pub mod Target
pub mod Example
pub mod Congruent
