pub mod Least
pub mod Walk
pub mod Idle
