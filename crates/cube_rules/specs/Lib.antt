pub mod Name
pub mod Context
pub mod Facts
pub mod Limits
pub mod Lines
pub mod Closing
pub mod Bare
