pub mod Steps
pub mod Gathered
pub mod Doomed
pub mod Turns
pub mod Agreed
pub mod Final
pub mod Digits
mod Rows
