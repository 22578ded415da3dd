pub mod Lines
pub mod Steps
pub mod Trees
pub mod Files
pub mod Appending
pub mod MoveLists
pub mod Faults
pub mod TreeLaws
