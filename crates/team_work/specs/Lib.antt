pub mod Shown
pub mod Outcome
pub mod Turn
pub mod Noting
