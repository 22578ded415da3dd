pub mod Status
pub mod Words
pub mod Verdicts
pub mod Carried
pub mod Answer
pub mod Told
