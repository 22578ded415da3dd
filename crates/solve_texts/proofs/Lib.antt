pub mod Trees
pub mod Lettering
pub mod Goals
pub mod Making
pub mod Replaying
mod Rows
