pub mod History
pub mod Legal
pub mod Work
pub mod Literals
