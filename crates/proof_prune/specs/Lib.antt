pub mod Pruned
pub mod Counting
pub mod Cutting
pub mod Writing
