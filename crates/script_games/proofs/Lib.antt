pub mod Carrying
pub mod Sorts
pub mod Lines
