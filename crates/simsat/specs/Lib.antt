pub mod Status
pub mod Solved
pub mod Answer
pub mod Effects
pub mod Run
pub mod Headline
pub mod Plan
pub mod Storing
