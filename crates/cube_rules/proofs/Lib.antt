pub mod Cases
pub mod Comparing
pub mod Counting
pub mod Learning
pub mod Lifting
pub mod Limiting
pub mod Naming
pub mod Sound
