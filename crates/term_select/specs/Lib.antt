pub mod Unions
pub mod Guided
pub mod Selected
pub mod Counter
pub mod Gathered
pub mod Walk
pub mod Answers
