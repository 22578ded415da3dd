pub mod Texts
pub mod Journal
pub mod Generated
pub mod Pieces
pub mod Tally
