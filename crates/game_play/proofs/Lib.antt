pub mod Sums
pub mod Courses
pub mod Turns
pub mod Standing
pub mod Meaning
pub mod Contest
