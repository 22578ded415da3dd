pub mod Lining
pub mod Winning
pub mod Heading
pub mod Telling
