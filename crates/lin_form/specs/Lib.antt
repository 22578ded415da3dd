pub mod Lin
pub mod Low
pub mod Kept
pub mod Outcome
pub mod Scope
pub mod Direct
pub mod Operating
