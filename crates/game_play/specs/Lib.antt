pub mod Beats
pub mod Worth
pub mod Course
pub mod Play
