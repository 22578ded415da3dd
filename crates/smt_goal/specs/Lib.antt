pub mod Command
pub mod Script
pub mod Rows
pub mod Session
pub mod Answer
