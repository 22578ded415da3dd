pub mod Section
pub mod Accepted
pub mod Example
