pub mod Prenex
pub mod Place
pub mod Whole
pub mod Outcome
pub mod Pass
